-- Laws of the step to the next Lyndon word, and to the one before.
pub mod Stepping
pub mod Backing
