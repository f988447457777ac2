pub mod LawsOwners
pub mod LawsNotes
