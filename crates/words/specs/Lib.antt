-- What the calls on one word promise.
pub mod Says
