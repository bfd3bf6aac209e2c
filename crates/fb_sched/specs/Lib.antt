pub mod Agenda
pub mod Changes
pub mod Keeping
pub mod Entries
pub mod Steps
pub mod Order
pub mod Expiry
