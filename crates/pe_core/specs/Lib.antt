pub mod Actions
pub mod Left
pub mod Standing
