pub mod Outcomes
pub mod Patterns
pub mod Runs
pub mod Made
pub mod Audited
pub mod Inputs
pub mod OverDisk
