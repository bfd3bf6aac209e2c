pub mod Depths
pub mod Faults
pub mod Members
pub mod Texts
pub mod Channels
