-- Facts about letters at a word's start, fits, bases and places that the proofs of the functions cite.
pub mod Leading
pub mod Fits
pub mod Bases
pub mod Locates
pub mod Computed
