pub mod Statuses
pub mod Outcomes
pub mod Codes
pub mod Reading
pub mod Writing
pub mod Placed
