pub mod Answers
pub mod Examples
pub mod Figures
pub mod Lines
