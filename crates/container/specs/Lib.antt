pub mod Container
pub mod Shown
pub mod Views
