-- Laws of entries that are written one after the other, and of one of them.
pub mod Writing
pub mod Changing
