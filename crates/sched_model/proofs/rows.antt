pub mod Behind
pub mod Longer
pub mod Neighbours
pub mod Present
pub mod Saturating
pub mod Segments
