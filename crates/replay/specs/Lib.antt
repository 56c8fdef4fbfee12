pub mod Replaying
pub mod Laws
pub mod LastSchedule
pub mod lemmas
pub mod code
