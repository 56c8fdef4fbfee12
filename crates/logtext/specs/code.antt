pub mod Promises
pub mod Reads
