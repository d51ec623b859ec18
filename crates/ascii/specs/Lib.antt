pub mod Codes
pub mod Decimal
