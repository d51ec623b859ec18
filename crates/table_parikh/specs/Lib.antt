pub mod Table
pub mod Letters
