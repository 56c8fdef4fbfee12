pub mod Failing
pub mod Tested
