pub mod Lines
pub mod Sameness
pub mod Views
pub mod Found
pub mod FoundTables
pub mod AddedRows
