-- What the signed sum asks.
pub mod Summands
