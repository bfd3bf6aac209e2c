pub mod Alike
pub mod Calls
pub mod Denials
