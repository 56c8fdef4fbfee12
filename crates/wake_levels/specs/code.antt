pub mod Calm
pub mod Queues
pub mod Waking
