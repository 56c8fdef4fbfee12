pub mod Owners
pub mod Related
pub mod Unwatched
pub mod Quiet
pub mod Relations
pub mod Possible
