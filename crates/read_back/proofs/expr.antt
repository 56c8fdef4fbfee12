pub mod Factor
pub mod Folds
pub mod Formed
pub mod Joined
pub mod Return
pub mod Said
pub mod Uses
