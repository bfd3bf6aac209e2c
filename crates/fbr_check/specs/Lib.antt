pub mod Halves
pub mod Verdicts
