pub mod Layout
pub mod Slots
pub mod Edges
pub mod Starts
pub mod Planes
pub mod Tape
pub mod Laws
