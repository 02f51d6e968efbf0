pub mod Allowed
pub mod Elements
