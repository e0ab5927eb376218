-- Laws behind the proofs of the functions.
pub mod Signed
pub mod Passed
pub mod Raised
