pub mod Parted
pub mod Names
pub mod Intervals
pub mod Firsts
pub mod Criteria
