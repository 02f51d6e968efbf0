pub mod Ending
pub mod Making
pub mod Auditing
pub mod Commands
pub mod OverDisk
