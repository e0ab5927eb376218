-- The text of a plan's listing.
pub mod Listings
