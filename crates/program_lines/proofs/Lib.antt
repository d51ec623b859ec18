-- The laws of the definitions that the functions' proofs cite.
pub mod Lines
