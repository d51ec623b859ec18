-- The laws of the definitions that proofs cite.
pub mod Decimals
pub mod Spelled
