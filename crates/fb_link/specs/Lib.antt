pub mod Fake
pub mod Link
pub mod Memory
pub mod Socket
