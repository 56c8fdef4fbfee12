pub mod Alike
pub mod Deserved
pub mod Judged
