-- Laws of tests that go through a word letter by letter, and of the Lyndon word that a word extends.
pub mod Scans
pub mod Periods
pub mod PrePeriods
