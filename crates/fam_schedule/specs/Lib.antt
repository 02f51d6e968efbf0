pub mod Laws
pub mod Made
pub mod Schedule
pub mod Worked
