pub mod Bounding
pub mod Cutting
pub mod Finding
pub mod Gathering
pub mod Keeping
pub mod Remembering
pub mod Rowing
