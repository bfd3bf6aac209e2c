pub mod Numbered
pub mod Nodes
pub mod Finding
