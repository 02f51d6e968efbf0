pub mod Atomics
pub mod Borders
pub mod Placing
pub mod Rows
pub mod Walks
