pub mod Effects
pub mod Sound
pub mod Views
pub mod Collected
pub mod Issuing
