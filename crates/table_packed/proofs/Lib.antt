pub mod Packs
pub mod Words
pub mod Values
