pub mod Apart
pub mod Places
pub mod Two
pub mod Crowds
