-- What the cursor calls promise.
pub mod Cursors
pub mod Standing
