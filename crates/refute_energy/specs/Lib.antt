pub mod Witness
pub mod Energy
pub mod OnEnergy
pub mod Named
pub mod laws
pub mod code
