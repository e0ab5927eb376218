-- Laws of a window looked for in a plan.
pub mod Looking
