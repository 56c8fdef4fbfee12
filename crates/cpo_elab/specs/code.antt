pub mod Calendars
pub mod Counted
pub mod Drafts
pub mod Items
pub mod Judging
pub mod Steps
pub mod ValidLaws
