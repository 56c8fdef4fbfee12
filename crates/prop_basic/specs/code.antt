pub mod Goals
pub mod Ready
pub mod Tables
pub mod Tasks
pub mod Fit
