pub mod Capping
pub mod Linking
pub mod Going
