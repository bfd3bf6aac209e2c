pub mod Lines
pub mod Views
pub mod Texts
pub mod Playing
pub mod Runs
pub mod Steps
pub mod Codes
