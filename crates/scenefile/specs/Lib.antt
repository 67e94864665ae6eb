pub mod Checks
pub mod Counted
pub mod Header
pub mod Load
pub mod Rows
