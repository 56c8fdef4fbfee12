pub mod Owners
pub mod Unwatched
pub mod Extra
pub mod Asking
pub mod Silence
