-- The laws of the definitions that the functions' proofs cite.
pub mod Cuts
pub mod Fields
pub mod Splits
pub mod Lines
pub mod Texts
pub mod Requests
pub mod Answered
