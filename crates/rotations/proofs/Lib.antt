-- Laws of rotations and of roots.
pub mod Turns
pub mod Roots
