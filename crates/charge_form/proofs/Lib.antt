mod Stretches
pub mod Tally
pub mod Longest
pub mod Charging
pub mod Example
