pub mod LawsRows
pub mod LawsProducer
pub mod LawsStarts
pub mod LawsEntries
pub mod LawsPlaces
pub mod LawsOnly
