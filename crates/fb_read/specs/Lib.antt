pub mod Reading
pub mod Answers
pub mod Faults
pub mod Whole
