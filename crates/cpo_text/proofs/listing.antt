pub mod Ivargs
pub mod Listed
pub mod Listing
pub mod Ones
