pub mod Answers
pub mod Cuts
pub mod Versions
pub mod Written
pub mod laws
pub mod code
