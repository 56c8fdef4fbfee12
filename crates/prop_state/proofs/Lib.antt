pub mod Asked
pub mod Making
pub mod Remembering
