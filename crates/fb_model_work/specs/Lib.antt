pub mod Spending
pub mod Most
pub mod Work
