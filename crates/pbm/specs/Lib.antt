-- Pictures as plain PBM files.
pub mod Pictures
pub mod Parts
