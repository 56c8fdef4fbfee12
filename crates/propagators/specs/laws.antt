pub mod Covered
pub mod Owned
pub mod Wider
pub mod Reduced
pub mod Turned
pub mod Circles
pub mod Relations
pub mod Everywhere
