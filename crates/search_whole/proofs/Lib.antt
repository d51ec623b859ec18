pub mod Wholes
pub mod Contract
pub mod Places
