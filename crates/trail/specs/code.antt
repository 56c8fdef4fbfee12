pub mod Chain
pub mod Entries
pub mod Log
pub mod Trail
