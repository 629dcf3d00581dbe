pub mod TwoSet
pub mod Swaps
