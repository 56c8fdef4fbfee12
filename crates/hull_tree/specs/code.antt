pub mod Atoms
pub mod Meaning
pub mod Nodes
pub mod Trees
