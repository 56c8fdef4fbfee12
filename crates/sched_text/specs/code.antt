pub mod Printing
pub mod Told
