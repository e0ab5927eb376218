-- Bytes at the start of a buffer, and one byte from a place on.
pub mod Buffers
