pub mod Endings
pub mod Opened
pub mod Verified
pub mod Within
