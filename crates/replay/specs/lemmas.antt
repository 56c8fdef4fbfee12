pub mod LastSchedule
pub mod Told
