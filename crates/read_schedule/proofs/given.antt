pub mod Assignments
pub mod Defs
pub mod Standing
