pub mod Lists
pub mod Devices
pub mod Storing
pub mod Blocks
pub mod Queued
pub mod Kept
pub mod Moved
pub mod Arriving
