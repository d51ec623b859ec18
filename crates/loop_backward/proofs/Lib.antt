pub mod Windows
pub mod Leftward
pub mod Reading
pub mod Scanning
pub mod Methods
pub mod Errors
