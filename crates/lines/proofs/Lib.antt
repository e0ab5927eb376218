-- Laws of lines.
pub mod Building
