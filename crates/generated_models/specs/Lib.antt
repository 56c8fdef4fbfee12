pub mod Laws
pub mod Shops
