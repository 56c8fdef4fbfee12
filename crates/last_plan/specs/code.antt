pub mod Stops
pub mod Answers
pub mod Ended
pub mod Tries
