pub mod Rows
pub mod Reasons
pub mod Places
pub mod Beginning
pub mod Clearing
pub mod Examining
pub mod Fitting
pub mod Tables
