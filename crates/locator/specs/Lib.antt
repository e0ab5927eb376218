-- Fits of a window in a text, and the word from which on it is looked for.
pub mod Fits
