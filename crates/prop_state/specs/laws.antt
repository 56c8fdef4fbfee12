pub mod Owners
pub mod Reading
pub mod Unwatched
pub mod Moving
pub mod Silence
pub mod Quieting
pub mod Again
