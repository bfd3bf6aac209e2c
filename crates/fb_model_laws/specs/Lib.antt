pub mod Words
pub mod Leaves
pub mod Shaped
pub mod Devices
pub mod Holding
pub mod Likeness
