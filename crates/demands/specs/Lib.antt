-- The promise as a whole.
pub mod Refused
pub mod Trays
pub mod Walked
pub mod Demands
