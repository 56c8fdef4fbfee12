pub mod Core
pub mod laws
pub mod code
