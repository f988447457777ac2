pub mod LawsStore
pub mod LawsWords
pub mod LawsLies
