pub mod Apart
pub mod Clocked
mod Found
mod Keeping
