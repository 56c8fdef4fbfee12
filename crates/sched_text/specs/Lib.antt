pub mod Pieces
pub mod Values
pub mod Answers
pub mod Shown
pub mod Canonical
pub mod laws
pub mod code
