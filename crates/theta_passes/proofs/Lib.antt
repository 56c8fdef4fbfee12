pub mod Sets
pub mod trees
pub mod scans
pub mod shown
