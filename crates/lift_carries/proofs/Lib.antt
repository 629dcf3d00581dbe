pub mod Starts
pub mod PortNames
pub mod Lifted
pub mod Drawings
