pub mod Joins
pub mod Backwards
pub mod Scans
