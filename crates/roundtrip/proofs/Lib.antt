pub mod Again
pub mod Back
pub mod Headers
pub mod Numbers
pub mod Pieces
pub mod Refusals
