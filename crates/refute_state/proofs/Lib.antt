pub mod Steps
pub mod Collecting
pub mod Timing
pub mod Gathering
