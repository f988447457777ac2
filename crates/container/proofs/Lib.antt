pub mod LawsMagic
pub mod LawsPlaces
pub mod LawsItem
pub mod LawsWalk
pub mod LawsShown
pub mod LawsOpened
pub mod LawsViews
