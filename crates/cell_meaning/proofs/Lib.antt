pub mod Singles
pub mod Moves
mod Driven
pub mod Mapping
