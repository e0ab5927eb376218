-- Laws of the search for a word, letter by letter.
pub mod Goals
pub mod Tries
pub mod Searches
