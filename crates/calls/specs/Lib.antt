-- What all calls share: refusals and their order, checked arguments, the form of an answer.
pub mod Order
pub mod Codes
pub mod Refusals
pub mod Checks
pub mod Answers
