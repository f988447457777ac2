pub mod LawsVersion
pub mod LawsDebug
pub mod LawsNumbered
