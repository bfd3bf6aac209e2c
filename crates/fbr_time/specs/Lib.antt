pub mod Timings
