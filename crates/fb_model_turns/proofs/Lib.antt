pub mod Joins
pub mod Dispatching
pub mod Fitting
pub mod Keeping
pub mod Events
pub mod Generations
pub mod Holding
pub mod Alone
