pub mod LawsWriting
pub mod LawsSized
pub mod LawsAlike
