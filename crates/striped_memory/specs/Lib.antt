pub mod Striped
pub mod Stripes
pub mod Laws
