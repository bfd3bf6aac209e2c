pub mod Writing
pub mod Numbers
pub mod Links
