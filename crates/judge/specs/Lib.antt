pub mod Judge
pub mod Rows
pub mod Steps
