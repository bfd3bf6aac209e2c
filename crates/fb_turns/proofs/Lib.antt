pub mod Demanding
pub mod Owning
pub mod Counted
pub mod Paid
pub mod Ready
pub mod Resources
pub mod Loops
