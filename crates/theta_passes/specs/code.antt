pub mod Edge
pub mod Late
pub mod Over
pub mod Parts
pub mod Places
pub mod Quiet
pub mod Rows
pub mod Witnesses
