pub mod Stops
pub mod Tries
