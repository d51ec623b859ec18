-- The saved form of a search: document 01, "The saved image", and what Load tests of it in "When a call says no".
pub mod Image
pub mod Decode
