pub mod LawsVarint
pub mod LawsSigned
pub mod LawsTells
pub mod LawsOut
pub mod LawsRequired
pub mod LawsArray
pub mod LawsWritten
pub mod LawsFloats
