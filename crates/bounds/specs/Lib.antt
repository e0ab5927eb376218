-- What the check of a place answers.
pub mod Places
