pub mod Decide
mod Exact
mod Turns
pub mod Judged
