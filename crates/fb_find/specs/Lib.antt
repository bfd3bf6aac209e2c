pub mod Given
pub mod Columns
pub mod Bounds
pub mod Parts
pub mod Crowds
pub mod Networks
pub mod Answers
