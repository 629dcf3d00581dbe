pub mod FaultKinds
pub mod LowestRule
pub mod ModelSteps
pub mod CircleLemmas
pub mod CircleSearch
pub mod FirstModelFaults
pub mod Faultless
pub mod OneClockFault
