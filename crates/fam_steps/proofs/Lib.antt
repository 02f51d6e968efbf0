pub mod Shapes
pub mod Blocked
pub mod Pieces
pub mod Enabled
pub mod Course
pub mod Serving
pub mod Keeping
pub mod Awaited
