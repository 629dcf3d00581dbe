pub mod Ways
pub mod Ranks
pub mod Search
pub mod Earliest
