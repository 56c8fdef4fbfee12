pub mod Quiet
pub mod Putting
pub mod Versions
