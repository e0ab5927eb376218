-- What the search knows of a window, a filling and a place.
pub mod Seeking
