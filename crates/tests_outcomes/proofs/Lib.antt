pub mod Digesting
pub mod Noticing
