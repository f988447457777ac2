pub mod Store
pub mod Lies
