pub mod Making
pub mod Watching
