pub mod Quiet
pub mod Every
pub mod laws
