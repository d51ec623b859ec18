-- How what is found grows in the two lists, and what the window's word says of a window.
pub mod Noting
pub mod Turns
