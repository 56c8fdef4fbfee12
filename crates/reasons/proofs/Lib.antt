pub mod LineByLine
pub mod Pushed
pub mod Told
