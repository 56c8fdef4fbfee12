pub mod Calm
pub mod Halves
pub mod Caps
