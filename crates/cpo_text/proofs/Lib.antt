pub mod pieces
pub mod operands
pub mod listing
pub mod stating
pub mod levelled
