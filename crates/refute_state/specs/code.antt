pub mod Canonical
pub mod Gathered
pub mod Groups
