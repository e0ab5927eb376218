-- Laws of answers and of checks, and of the order of refusals.
pub mod Order
pub mod Numbers
pub mod Answers
pub mod Checks
