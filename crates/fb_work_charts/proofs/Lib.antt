pub mod Capping
pub mod Named
pub mod Tariffs
pub mod Transitions
pub mod Turns
