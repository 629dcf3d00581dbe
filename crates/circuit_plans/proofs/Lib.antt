pub mod Ordered
pub mod Steps
pub mod EntryBits
pub mod Whole
