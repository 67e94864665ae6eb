pub mod At
pub mod Bound
pub mod FloorDiv
pub mod Laws
pub mod Numbered
pub mod Pt
pub mod Refusals
pub mod Root
