-- The laws behind the loops: how the table is filled, what its antidiagonals add up to, how the sizes are listed.
pub mod Filling
pub mod Diagonals
pub mod Listing
