pub mod Calls
pub mod Memory
pub mod State
pub mod Whole
