pub mod Different
pub mod Apart
pub mod Texts
