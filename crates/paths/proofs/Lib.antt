pub mod Alikes
pub mod Gaps
pub mod Holding
pub mod Tables
