pub mod Ends
pub mod Found
pub mod laws
pub mod code
