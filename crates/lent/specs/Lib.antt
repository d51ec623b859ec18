pub mod Placed
pub mod Loops
pub mod Found
pub mod Written
pub mod Appended
