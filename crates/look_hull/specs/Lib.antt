pub mod LookHull
pub mod laws
pub mod code
