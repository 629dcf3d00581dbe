pub mod OneClockFault
pub mod Decided
pub mod Loops
pub mod Read
pub mod Ports
pub mod SoundParts
