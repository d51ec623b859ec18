pub mod Pack
pub mod Word
