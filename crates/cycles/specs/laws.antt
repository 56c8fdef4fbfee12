pub mod Walking
pub mod Reads
pub mod Pushed
pub mod Behind
pub mod Beginning
pub mod Marking
pub mod Looping
