-- A word of the ring, the test of its length, the way from one to the next, and the letters from a place on.
pub mod Directions
pub mod Ways
pub mod Moving
pub mod Printing
pub mod Held
