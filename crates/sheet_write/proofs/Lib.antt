-- The laws that the functions' proofs cite.
pub mod Columns
pub mod Pages
pub mod Fronts
