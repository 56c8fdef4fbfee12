pub mod Reported
pub mod Within
