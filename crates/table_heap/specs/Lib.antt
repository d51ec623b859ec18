pub mod Powers
pub mod Table
