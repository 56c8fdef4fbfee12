pub mod Bounds
pub mod Rows
pub mod Known
pub mod Found
