pub mod Boundary
pub mod Views
pub mod Files
pub mod Sheets
pub mod Caches
