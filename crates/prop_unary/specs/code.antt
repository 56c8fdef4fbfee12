pub mod Circles
pub mod Heard
pub mod Rows
pub mod Silence
pub mod Tables
pub mod Tasks
