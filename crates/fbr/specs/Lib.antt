pub mod Answers
pub mod Together
