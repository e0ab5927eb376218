-- The tests for a torn plan, and the entries of one that is not.
pub mod Torn
pub mod Entries
