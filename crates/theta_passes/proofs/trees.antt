pub mod Between
pub mod Cuts
pub mod Dropping
pub mod Falling
pub mod Filling
pub mod Painting
