pub mod Layouts
pub mod Plans
pub mod Rows
