pub mod Entered
pub mod Misreading
pub mod Taken
pub mod Each
