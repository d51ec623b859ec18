pub mod Whole
pub mod Paper
