mod Coming
mod Spelled
pub mod Limits
