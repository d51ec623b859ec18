pub mod Placing
pub mod Listing
pub mod Writing
pub mod Pieces
pub mod Appending
