pub mod Spans
pub mod Counting
