pub mod Moments
mod Filled
mod Pushed
