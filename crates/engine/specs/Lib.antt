pub mod Plain
pub mod Runs
pub mod laws
pub mod code
