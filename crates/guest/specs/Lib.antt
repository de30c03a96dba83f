pub mod Answers
pub mod Reads
pub mod Meaning
pub mod Laws
