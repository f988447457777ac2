pub mod LawsIndices
pub mod LawsOpenings
pub mod LawsEndings
pub mod LawsScalars
