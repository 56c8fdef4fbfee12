pub mod Known
pub mod Silence
pub mod Tables
pub mod Tasks
pub mod Walks
