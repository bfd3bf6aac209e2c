pub mod Scenes
pub mod Answers
pub mod Roots
pub mod Booking
pub mod Room
pub mod Keeping
pub mod Beginning
