pub mod Held
pub mod TwinGaps
pub mod TwinPaths
pub mod TwinTables
