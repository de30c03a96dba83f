mod Steps
mod Whole
pub mod Related
pub mod Alike
pub mod ThreeNodes
pub mod Laws
pub mod Shape
pub mod Parts
pub mod ByCode
