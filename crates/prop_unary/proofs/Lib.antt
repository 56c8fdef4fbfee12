pub mod Walks
pub mod Asked
pub mod Watching
pub mod Sets
pub mod Noted
pub mod Hearing
pub mod Reading
pub mod Resting
