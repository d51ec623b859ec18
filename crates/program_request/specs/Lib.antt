pub mod Line
pub mod Reading
pub mod Request
pub mod Parsing
