pub mod Paces
pub mod Sealing
pub mod Making
