pub mod Model
pub mod Names
pub mod Saturated
pub mod Sweep
pub mod Ranks
