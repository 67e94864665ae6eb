pub mod FloorDivs
pub mod Products
pub mod RootOrder
pub mod Roots
pub mod Triangles
