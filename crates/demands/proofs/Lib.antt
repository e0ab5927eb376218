-- The promise, kept.
pub mod Faults
pub mod Trays
pub mod Refused
pub mod Words
pub mod Marks
pub mod Pictures
pub mod Walking
pub mod Laying
pub mod Misread
pub mod Billing
pub mod Kept
