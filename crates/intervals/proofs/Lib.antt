pub mod Good
pub mod Codes
pub mod Trim
pub mod Interval
pub mod Laws
