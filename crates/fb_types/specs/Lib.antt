pub mod Uses
pub mod Shapes
pub mod Views
pub mod Counts
pub mod Rings
pub mod Made
