pub mod Turning
pub mod Calming
