pub mod Indices
pub mod Kinds
pub mod Parts
