-- What the search asks for and what it answers.
pub mod Fits
