pub mod Bounds
pub mod Seldom
