pub mod OneSpelling
mod Regrouped
pub mod Spelled
mod Worked
