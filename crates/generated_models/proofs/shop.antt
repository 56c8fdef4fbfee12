pub mod Apart
pub mod Lists
pub mod Looked
pub mod Objective
pub mod ShopValid
pub mod ShopWritten
pub mod Sizes
