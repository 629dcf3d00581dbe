pub mod Names
mod LowLists
pub mod Sparing
mod Bounds
mod Lanes
mod NetPlaces
mod OfOne
pub mod OneContext
mod Several
mod FreeWords
mod Newlines
mod Lines
mod Words
mod Tables
pub mod Compiled
mod Tapes
