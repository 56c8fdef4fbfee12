pub mod Owners
pub mod Silent
pub mod Unwatched
pub mod Fit
