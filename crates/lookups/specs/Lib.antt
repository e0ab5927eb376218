-- What the calls on plans promise.
pub mod Says
