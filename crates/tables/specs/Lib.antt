pub mod Tables
pub mod Answers
pub mod Records
pub mod Load
pub mod Allowed
pub mod Exact
pub mod Noted
pub mod Each
