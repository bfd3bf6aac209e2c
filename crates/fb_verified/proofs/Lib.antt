pub mod Lookups
pub mod Written
