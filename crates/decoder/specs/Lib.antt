pub mod File
pub mod Views
