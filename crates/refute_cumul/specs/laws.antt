pub mod Spelling
pub mod Past
pub mod Levels
pub mod Loads
pub mod Sound
pub mod Alike
pub mod Sides
pub mod Settled
