pub mod Handed
pub mod Feeding
pub mod Images
