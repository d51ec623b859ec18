pub mod Powers
pub mod Sums
