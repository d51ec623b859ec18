pub mod Counted
pub mod Layouts
