-- Floats by their exact magnitudes: a code's magnitude, the code nearest to one, and the two 8-bit formats.
pub mod Magnitude
pub mod Nearest
pub mod Formats
pub mod Inner
