pub mod Known
pub mod Passing
pub mod Memory
pub mod Again
