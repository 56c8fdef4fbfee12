pub mod Making
pub mod Asked
pub mod Counting
pub mod Members
pub mod Presences
pub mod Silence
pub mod OneMore
pub mod Quiet
