pub mod Growing
pub mod Placing
pub mod Meant
pub mod Found
pub mod Whole
pub mod Reaching
