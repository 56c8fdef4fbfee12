pub mod Rows
pub mod Ends
pub mod Starts
pub mod Trees
