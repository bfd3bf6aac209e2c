mod Reckoning
pub mod Roomy
pub mod Fitting
