pub mod Auditing
pub mod Laws
pub mod Turns
pub mod Verdict
