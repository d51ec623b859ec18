pub mod Starting
pub mod Counting
pub mod Hashing
