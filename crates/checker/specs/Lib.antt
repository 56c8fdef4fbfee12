pub mod Judgement
pub mod Checking
pub mod Laws
pub mod lemmas
pub mod code
