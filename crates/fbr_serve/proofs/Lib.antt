pub mod Served
pub mod Loaded
mod Traced
mod Recorded
mod Looped
mod Sealings
pub mod Handing
pub mod Alike
pub mod Taking
