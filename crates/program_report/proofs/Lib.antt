-- The laws of the definitions that the functions' proofs cite.
pub mod Answers
pub mod Headers
pub mod Example
pub mod Inspections
pub mod Room
pub mod Founds
