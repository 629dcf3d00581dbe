pub mod Lifts
pub mod Compiled
