pub mod Documented
pub mod Taken
pub mod Selecting
pub mod Setting
