pub mod Watching
pub mod Few
