pub mod Lists
pub mod Fronts
pub mod Readers
pub mod Repetitions
pub mod Steady
pub mod SteadyLists
pub mod Viable
pub mod Whole
