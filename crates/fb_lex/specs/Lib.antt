pub mod Lexing
pub mod Scanning
pub mod Views
