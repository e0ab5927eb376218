-- Laws of pictures.
pub mod Rows
pub mod Reading
pub mod Heads
pub mod Spreading
pub mod Drawing
pub mod Pictures
