pub mod Whole
pub mod Separate
