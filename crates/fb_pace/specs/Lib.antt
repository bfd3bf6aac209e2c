pub mod Bucket
pub mod Buckets
pub mod Pacing
pub mod Rates
