-- Laws of the listing.
pub mod Fields
pub mod Sections
pub mod Openings
pub mod Alike
