pub mod Names
pub mod Numbers
pub mod Rows
pub mod Spelled
pub mod Taken
pub mod Texts
pub mod Values
