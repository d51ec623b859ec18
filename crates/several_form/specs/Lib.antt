pub mod Finds
pub mod Mcount
pub mod Handed
