pub mod Best
pub mod Holds
pub mod Verdicts
