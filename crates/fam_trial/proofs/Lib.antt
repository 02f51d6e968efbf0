mod Lawful
mod Lines
mod Sums
mod Words
