pub mod Rows
pub mod Sayable
pub mod Printed
pub mod Views
pub mod Reading
pub mod Adding
pub mod Answers
pub mod Progress
