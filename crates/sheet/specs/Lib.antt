pub mod Contents
pub mod Whole
pub mod Sheet
