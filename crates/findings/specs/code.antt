pub mod Likely
pub mod Numbers
pub mod Reads
pub mod Search
pub mod Tables
