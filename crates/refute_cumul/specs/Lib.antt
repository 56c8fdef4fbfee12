pub mod Witness
pub mod Levels
pub mod Point
pub mod OnCumul
pub mod Listed
pub mod Named
pub mod laws
pub mod code
