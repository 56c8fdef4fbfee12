pub mod Sure
pub mod Cells
pub mod Inside
pub mod Values
pub mod Hulls
pub mod Saturation
pub mod Alike
pub mod Proper
