pub mod Axes
pub mod Outside
pub mod Points
pub mod Runs
pub mod Strides
pub mod Told
