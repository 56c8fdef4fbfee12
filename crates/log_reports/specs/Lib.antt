pub mod Texts
pub mod Reports
pub mod code
pub mod laws
