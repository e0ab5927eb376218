-- Which plans are accepted, what opening one answers, and where a place stands among its sections.
pub mod Accepted
pub mod Opened
pub mod Begun
