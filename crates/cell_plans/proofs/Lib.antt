pub mod Drawn
pub mod Counted
mod Alike
pub mod Exits
mod Single
