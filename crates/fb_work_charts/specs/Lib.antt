pub mod Charges
pub mod Reckoning
