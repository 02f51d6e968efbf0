pub mod Order
pub mod Sorted
pub mod Ready
pub mod Places
mod Points
mod Found
pub mod Stripes
mod Busy
pub mod Whole
mod Passes
mod Rising
mod Searches
