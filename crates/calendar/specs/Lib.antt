pub mod Steps
pub mod Kept
pub mod Rules
pub mod Sentence
pub mod code
pub mod laws
