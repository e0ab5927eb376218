-- What the calls on marks promise.
pub mod Says
