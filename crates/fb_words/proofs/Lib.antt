pub mod Types
