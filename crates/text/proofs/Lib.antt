pub mod LawsText
pub mod LawsDigits
pub mod LawsCounted
pub mod LawsNumbers
