pub mod Firsts
pub mod Contract
pub mod Claims
