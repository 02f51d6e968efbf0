pub mod Calls
pub mod Crash
pub mod File
pub mod Known
pub mod Memory
pub mod Replay
pub mod Torn
