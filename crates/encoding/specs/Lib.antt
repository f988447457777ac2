pub mod Varint
pub mod Signed
pub mod Out
pub mod Shown
pub mod Floats
pub mod Widths
