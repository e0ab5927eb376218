-- What is read from a plan's bytes.
pub mod Read
