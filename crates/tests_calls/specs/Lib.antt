pub mod Searches
pub mod Calls
