pub mod First
pub mod Drafts
pub mod Filling
