-- What the proofs of the functions lean on: the section of a place, and whether there is one; and laws of sections in order and of refused plans.
pub mod Places
pub mod Laid
pub mod Straight
pub mod Opening
