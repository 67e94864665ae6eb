pub mod Cell
pub mod CellLaw
pub mod Cells
pub mod Paths
