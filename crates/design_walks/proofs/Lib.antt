pub mod Walked
pub mod Weighing
pub mod Positioned
pub mod Sorted
pub mod Added
