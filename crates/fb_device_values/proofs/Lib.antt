pub mod Drafting
pub mod Adding
pub mod Starts
pub mod Inputs
pub mod Filled
pub mod Leaving
pub mod Knowing
