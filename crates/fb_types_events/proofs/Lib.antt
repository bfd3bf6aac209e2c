pub mod Reckoned
pub mod EventTrees
pub mod Declared
pub mod Spelled
