pub mod walks
pub mod levels
pub mod rows
pub mod Weights
pub mod Digits
pub mod Building
