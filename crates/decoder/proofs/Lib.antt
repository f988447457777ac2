pub mod LawsFile
pub mod LawsRowViews
pub mod LawsAfter
