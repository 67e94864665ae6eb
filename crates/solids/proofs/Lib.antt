pub mod Casts
pub mod Least
