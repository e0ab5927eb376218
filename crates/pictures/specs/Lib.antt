-- What the calls on pictures promise, and what is printed for a request.
pub mod Says
pub mod Requests
