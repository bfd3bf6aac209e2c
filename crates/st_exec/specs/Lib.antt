pub mod Forms
pub mod Laid
pub mod CodeViews
pub mod Placed
pub mod Cells
pub mod Slots
pub mod Runs
pub mod Kept
