pub mod Changes
pub mod Ending
pub mod Engines
pub mod Noted
pub mod Pairs
pub mod Watched
pub mod Watching
