mod Admitting
mod Counters
pub mod Asking
mod Dropping
mod Extending
mod Masks
mod Padding
mod Replays
mod Spelling
mod Windows
