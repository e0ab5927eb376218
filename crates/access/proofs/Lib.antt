-- Why the word found holds the position, and what is read there.
pub mod Holding
pub mod Reading
pub mod Ending
