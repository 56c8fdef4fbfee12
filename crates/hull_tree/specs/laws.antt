pub mod Halves
pub mod Skips
