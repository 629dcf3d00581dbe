pub mod Earliest
pub mod OneClock
pub mod Faults
