-- What looking for a window in a plan answers.
pub mod Looks
