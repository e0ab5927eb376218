-- Which windows are refused, and why the place computed by ranks is the window's.
pub mod Refusing
pub mod Placing
