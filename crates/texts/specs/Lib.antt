-- Numbers, letters and lines as text.
pub mod Texts
pub mod Writers
