-- Laws of worksheets.
pub mod Rows
pub mod Inputs
pub mod Sheets
