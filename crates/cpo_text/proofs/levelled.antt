pub mod Adding
pub mod PartsAgain
pub mod PartsTaken
