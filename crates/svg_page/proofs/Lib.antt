pub mod Moments
pub mod Rows
pub mod Steps
pub mod Shading
pub mod Placing
