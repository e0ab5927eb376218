-- Laws of powers under the limit, and the limits of a strip.
pub mod Powers
pub mod Limits
pub mod Rings
