pub mod Laws
pub mod Located
pub mod Making
pub mod Passing
