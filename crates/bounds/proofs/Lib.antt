-- A place, and its fault.
pub mod Places
