pub mod Digests
pub mod Outcomes
