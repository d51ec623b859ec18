pub mod Filling
pub mod Numbers
pub mod Places
pub mod Spellings
pub mod Arguments
pub mod Onward
