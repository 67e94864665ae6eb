pub mod Again
pub mod Files
pub mod Laying
pub mod Outputs
