pub mod Views
pub mod Tables
pub mod Filling
pub mod Takers
