pub mod Closed
pub mod Rules
pub mod Prefix
pub mod Meaning
pub mod Fitting
pub mod Sentences
