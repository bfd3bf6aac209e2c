pub mod Reading
pub mod Composed
pub mod Denied
pub mod Misfit
pub mod Promised
