pub mod Driving
pub mod Misses
pub mod Runs
pub mod Shown
