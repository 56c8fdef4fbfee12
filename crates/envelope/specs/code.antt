pub mod Bars
pub mod Nodes
pub mod Trees
