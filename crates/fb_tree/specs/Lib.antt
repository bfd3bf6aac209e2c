pub mod Words
pub mod Algorithms
pub mod Files
