pub mod Restarts
pub mod laws
pub mod code
