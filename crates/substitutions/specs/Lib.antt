-- The bytes of a list of changes, and what writing it promises.
pub mod Entries
