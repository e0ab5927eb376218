-- The text of a worksheet.
pub mod Worksheets
