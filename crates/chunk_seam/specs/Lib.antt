pub mod Seam
pub mod Joined
