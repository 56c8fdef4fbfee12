pub mod Answered
pub mod Told
pub mod Ending
pub mod Pushed
pub mod Within
