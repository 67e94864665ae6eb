pub mod Law
pub mod SetPoint
