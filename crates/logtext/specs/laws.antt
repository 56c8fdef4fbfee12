pub mod Leads
pub mod Told
pub mod Plain
pub mod Kinds
pub mod Entries
pub mod Ends
pub mod Lifted
