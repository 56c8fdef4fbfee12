pub mod Loads
pub mod Profiles
pub mod Sides
