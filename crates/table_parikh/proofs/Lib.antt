pub mod Tables
pub mod Filled
pub mod Parikh
pub mod Letters
pub mod Spans
pub mod Excess
pub mod Lost
