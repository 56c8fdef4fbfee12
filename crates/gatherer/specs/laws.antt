pub mod Ports
pub mod Gathering
