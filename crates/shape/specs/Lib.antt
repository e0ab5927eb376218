-- What the strip's constructor answers, words on a strip, and the two rings.
pub mod Shapes
pub mod Rings
