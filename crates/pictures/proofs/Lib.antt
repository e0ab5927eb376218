-- Laws of pictures as answers.
pub mod Framing
pub mod Requesting
