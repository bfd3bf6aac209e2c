pub mod Counting
pub mod Leaves
pub mod Places
