pub mod Amounts
pub mod Expressions
pub mod Functions
pub mod Intervals
pub mod Operands
pub mod Rising
