pub mod Telling
pub mod Places
pub mod Counts
pub mod Kept
pub mod Searches
pub mod Nexts
pub mod Reached
pub mod Told
