pub mod Held
pub mod Budget
pub mod Parts
pub mod Slots
pub mod Steps
pub mod View
pub mod Reports
