pub mod Places
pub mod Moments
pub mod Kept
pub mod Rooting
pub mod Frames
pub mod Truth
pub mod Shown
pub mod Halving
