pub mod Parts
pub mod Fronts
pub mod Once
pub mod Joining
