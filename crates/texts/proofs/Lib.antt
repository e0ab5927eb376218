-- Laws of texts.
pub mod Decimals
pub mod Signs
pub mod Digits
pub mod Adding
pub mod Writing
