pub mod Assigned
pub mod Keeping
pub mod Silent
pub mod Segments
