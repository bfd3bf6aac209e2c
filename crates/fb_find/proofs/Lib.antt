pub mod Nodes
mod Lists
mod Clearing
mod Crowding
mod Columns
mod Resources
mod Adding
mod Networking
mod Making
pub mod Given
mod Tabled
pub mod Taking
pub mod Promised
