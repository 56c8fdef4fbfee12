pub mod Anew
pub mod Answering
pub mod Closing
pub mod Deriving
pub mod Ending
pub mod Fitting
pub mod Running
pub mod Whole
