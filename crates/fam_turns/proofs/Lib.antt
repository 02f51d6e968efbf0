pub mod Scheduled
pub mod Contexts
pub mod Beginning
pub mod Coming
pub mod Replying
pub mod Holding
