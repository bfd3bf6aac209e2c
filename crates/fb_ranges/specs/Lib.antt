pub mod Views
pub mod Narrowing
pub mod Answers
pub mod Faults
pub mod Steps
pub mod Meeting
pub mod Finding
pub mod Settling
