pub mod Checked
pub mod Lookups
