pub mod Fillings
pub mod Reading
pub mod Texts
pub mod Kinds
pub mod Cases
pub mod Arguments
pub mod Patterns
