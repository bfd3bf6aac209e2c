pub mod Algorithms
pub mod Demands
pub mod Counting
