pub mod Answers
pub mod Index
pub mod Names
pub mod Slots
