mod Moves
pub mod Planned
