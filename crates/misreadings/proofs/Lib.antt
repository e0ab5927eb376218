-- Laws of a list of misreadings.
pub mod Listing
