pub mod spelling
pub mod whole
pub mod given
