pub mod Begun
pub mod Pushes
pub mod Search
pub mod Walks
pub mod Ways
