pub mod Orders
pub mod Ending
pub mod Loads
pub mod Starting
pub mod Bars
pub mod Sets
pub mod Walking
pub mod Sorting
