-- The word that holds a position.
pub mod Holders
