pub mod Elaborating
pub mod Views
pub mod Answers
pub mod Commanding
pub mod CommandViews
