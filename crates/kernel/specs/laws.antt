pub mod NoExtra
pub mod Pending
pub mod Derives
pub mod Fits
pub mod Outcomes
pub mod Budget
pub mod Open
