pub mod Ended
pub mod Tries
