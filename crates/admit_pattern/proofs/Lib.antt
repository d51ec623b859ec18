mod Exact
mod Lost
pub mod Refusing
pub mod Counting
