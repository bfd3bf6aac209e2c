pub mod SameKinds
pub mod Inputs
pub mod Firing
pub mod Stamped
pub mod Deliveries
pub mod Ticking
pub mod Beginning
pub mod Ticks
