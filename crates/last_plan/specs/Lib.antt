pub mod Counted
pub mod Plans
pub mod Texts
pub mod Told
pub mod Runs
pub mod code
