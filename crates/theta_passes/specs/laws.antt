pub mod Members
pub mod Quiet
