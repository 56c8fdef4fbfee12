pub mod text
pub mod shop
pub mod deserving
