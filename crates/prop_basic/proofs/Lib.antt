pub mod Making
pub mod Asked
pub mod Round
pub mod Watching
