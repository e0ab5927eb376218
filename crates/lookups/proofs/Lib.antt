-- Laws of the lookup in a plan, of a window that was read in full and of one with erasures.
pub mod Laying
pub mod Fitting
