pub mod FaultNames
pub mod Drivers
pub mod Circles
pub mod ModelFaults
pub mod Clocks
pub mod Laws
pub mod FlatClocks
