-- Words that can be lowered.
pub mod Lowering
