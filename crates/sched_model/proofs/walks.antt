pub mod Cells
pub mod Elements
pub mod Joined
pub mod Lists
pub mod Orders
pub mod Valued
