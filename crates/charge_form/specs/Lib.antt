pub mod Runs
pub mod Charge
pub mod Longest
