pub mod Writing
pub mod Saved
