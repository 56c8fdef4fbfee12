pub mod Asking
pub mod Calm
pub mod Extra
pub mod Silence
pub mod Tables
pub mod Tasks
