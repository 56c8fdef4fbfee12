pub mod Heights
pub mod Members
pub mod Shown
pub mod Silence
pub mod Tables
pub mod Tasks
pub mod Touches
