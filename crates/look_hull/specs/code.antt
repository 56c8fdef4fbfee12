pub mod Known
pub mod Saturated
