pub mod Faults
pub mod Leaves
pub mod Marks
pub mod OpenIntervals
pub mod Putting
pub mod Searching
pub mod Solving
