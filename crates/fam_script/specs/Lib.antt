pub mod BadLine
pub mod Digits
pub mod Lines
pub mod Machine
pub mod Parsing
pub mod Reading
pub mod Spaced
pub mod Views
