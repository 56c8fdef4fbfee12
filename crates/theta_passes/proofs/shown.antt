pub mod Edging
pub mod Showing
