-- What the calls on the Lyndon words of a length promise.
pub mod Says
