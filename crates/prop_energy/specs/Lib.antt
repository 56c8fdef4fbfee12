pub mod Full
pub mod code
