pub mod Answers
pub mod Rearming
pub mod Taking
