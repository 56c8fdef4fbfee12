pub mod Files
pub mod Schedules
pub mod Told
pub mod code
pub mod laws
