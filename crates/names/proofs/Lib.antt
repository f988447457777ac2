pub mod LawsRows
pub mod LawsDescribed
pub mod LawsListed
pub mod LawsName
pub mod LawsAnswer
pub mod NamesOnly
