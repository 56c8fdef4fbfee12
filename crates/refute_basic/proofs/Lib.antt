pub mod Slots
pub mod Turns
pub mod Numbered
pub mod Placing
