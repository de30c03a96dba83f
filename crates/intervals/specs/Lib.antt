pub mod Word
pub mod Range
pub mod Grammar
pub mod Value
pub mod Typing
pub mod Narrow
pub mod Meaning
