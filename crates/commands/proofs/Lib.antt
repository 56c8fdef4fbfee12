pub mod Logged
pub mod Valued
pub mod Searched
pub mod Shown
pub mod Solved
pub mod Verified
pub mod Ending
mod Complete
pub mod Within
