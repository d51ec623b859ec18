pub mod Joins
pub mod Prepared
pub mod Seams
pub mod Full
