pub mod Schedules
pub mod code
pub mod Promises
