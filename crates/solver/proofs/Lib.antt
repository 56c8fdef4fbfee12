pub mod logged
pub mod cutting
pub mod kept
