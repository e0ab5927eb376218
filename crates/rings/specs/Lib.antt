-- What the moves along the ring ask and answer.
pub mod Moves
