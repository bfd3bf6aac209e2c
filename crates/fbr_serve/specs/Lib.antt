pub mod Serving
pub mod Recording
