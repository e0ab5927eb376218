-- What is found in a window with erasures.
pub mod Scans
