-- Laws of ranks and counts.
pub mod Shapes
pub mod Quotients
pub mod Floored
