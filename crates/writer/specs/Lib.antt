pub mod Rewrite
pub mod Write
