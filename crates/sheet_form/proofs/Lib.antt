-- How long a sheet is, how it grows page by page, and that it can be read back.
pub mod Joining
pub mod Lengths
pub mod Parts
pub mod Lines
pub mod ReadBack
pub mod Example
