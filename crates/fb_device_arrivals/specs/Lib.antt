pub mod Answers
pub mod Offering
pub mod Ticking
pub mod Delivering
pub mod Stamping
