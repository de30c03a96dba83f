mod Alone
mod Typed
mod Loads
pub mod Whole
