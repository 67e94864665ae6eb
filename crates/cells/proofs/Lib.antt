pub mod Casts
pub mod Cubes
pub mod Levels
pub mod Spans
