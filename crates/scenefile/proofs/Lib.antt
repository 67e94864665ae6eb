pub mod Chains
pub mod Loads
pub mod Entries
pub mod NodeTable
pub mod Orders
pub mod Walks
pub mod Readings
