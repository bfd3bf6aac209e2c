pub mod Numbers
pub mod Ports
pub mod Services
pub mod Named
