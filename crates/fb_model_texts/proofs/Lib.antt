pub mod Small
pub mod Messages
