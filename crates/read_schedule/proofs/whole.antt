pub mod Body
pub mod Ends
pub mod Headed
pub mod Heads
pub mod Promised
pub mod Refusing
pub mod Segments
