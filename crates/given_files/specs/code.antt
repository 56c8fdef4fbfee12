pub mod Reading
pub mod Stops
pub mod Telling
pub mod Testing
