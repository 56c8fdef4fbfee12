pub mod Marks
pub mod Listed
pub mod Cores
