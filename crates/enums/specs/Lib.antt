pub mod Container
pub mod Types
pub mod Debug
pub mod Refusals
pub mod Version
pub mod Numbered
