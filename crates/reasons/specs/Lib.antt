pub mod Explained
pub mod Texts
pub mod Told
pub mod Runs
pub mod code
