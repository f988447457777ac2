-- The laws behind the conversions, over exponent and mantissa widths. Another crate may cite each.
pub mod Rounding
pub mod Neighbours
pub mod Steps
pub mod Binades
pub mod Narrowing
pub mod Whole
pub mod Only
pub mod Rows
