pub mod Gaps
pub mod Items
pub mod Space
