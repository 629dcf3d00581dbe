pub mod NameSets
pub mod Placed
pub mod Words
pub mod EarliestBroken
