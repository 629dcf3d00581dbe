pub mod SameRuns
pub mod Carried
pub mod Cycles
pub mod Needs
pub mod Zeros
pub mod Sparing
pub mod Named
pub mod OfFlat
