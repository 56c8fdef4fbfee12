pub mod Branching
pub mod Fixing
pub mod Marking
pub mod OpenOrders
pub mod Sifting
