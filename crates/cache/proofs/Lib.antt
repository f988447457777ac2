pub mod LawsJudged
pub mod LawsCalls
pub mod LawsFetch
