pub mod Bound
pub mod Bounds
pub mod laws
pub mod code
