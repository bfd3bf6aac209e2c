mod Keys
mod Summing
mod Counting
mod Names
pub mod Walks
pub mod Telling
mod Limits
mod Needing
mod QueueRows
mod Found
pub mod Deep
