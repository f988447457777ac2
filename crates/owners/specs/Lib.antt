pub mod Owners
pub mod Notes
