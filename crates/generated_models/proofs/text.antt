pub mod Bytes
pub mod Names
pub mod Said
pub mod SaidShops
pub mod Shallow
pub mod ShopSaid
