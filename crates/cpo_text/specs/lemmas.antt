pub mod Folds
pub mod Levels
pub mod Slashes
pub mod Deserved
pub mod WordRuns
pub mod Free
pub mod Bodies
