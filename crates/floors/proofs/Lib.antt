-- Laws of a word that is lowered from its end.
pub mod Lowering
