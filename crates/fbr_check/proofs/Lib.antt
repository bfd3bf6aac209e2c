pub mod Divide
pub mod Verdicts
