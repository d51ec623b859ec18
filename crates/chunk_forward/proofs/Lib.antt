pub mod Joins
pub mod Seams
pub mod Forwards
