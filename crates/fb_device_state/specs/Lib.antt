pub mod Sessions
pub mod Machines
pub mod Numbers
pub mod Keeping
pub mod Arrivals
