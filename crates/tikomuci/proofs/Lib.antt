pub mod LawsBoundary
pub mod LawsTold
pub mod LawsViews
pub mod LawsFiles
pub mod LawsSheets
pub mod LawsCaches
