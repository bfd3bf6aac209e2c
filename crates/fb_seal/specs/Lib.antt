pub mod Gates
pub mod Ledger
pub mod Passing
pub mod Peers
pub mod Reading
pub mod Seal
pub mod Window
