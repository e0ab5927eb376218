-- Laws of buffers.
pub mod Bytes
pub mod Fills
