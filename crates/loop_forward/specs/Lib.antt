pub mod Windows
pub mod Sliding
