pub mod Loads
pub mod Bench
