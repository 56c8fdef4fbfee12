pub mod Products
pub mod Area
pub mod Bars
pub mod Sound
pub mod Spelling
pub mod Wide
pub mod Few
