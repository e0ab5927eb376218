-- What the calls on misreadings promise.
pub mod Says
