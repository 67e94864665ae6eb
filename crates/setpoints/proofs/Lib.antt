pub mod Axes
pub mod SetPoints
