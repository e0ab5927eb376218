-- What is searched for, and a letter of it as it is found.
pub mod Goals
