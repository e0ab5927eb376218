-- Numbers with the highest byte first.
pub mod Numbers
