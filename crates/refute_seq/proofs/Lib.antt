pub mod Rowing
pub mod Sides
pub mod Walking
pub mod SetReading
pub mod KindReading
