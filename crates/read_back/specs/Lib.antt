pub mod Laws
pub mod Says
pub mod Trees
pub mod Written
