pub mod Descents
pub mod Sayings
