pub mod Front
pub mod Counts
pub mod Numbers
