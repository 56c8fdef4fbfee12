pub mod Enough
pub mod Places
pub mod Restarts
