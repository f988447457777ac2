pub mod Cache
pub mod Lent
pub mod Judge
pub mod Meaning
pub mod History
