pub mod Fewer
pub mod Valid
