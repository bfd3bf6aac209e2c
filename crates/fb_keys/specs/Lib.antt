pub mod Keys
pub mod Rates
pub mod Views
pub mod State
