pub mod Spans
pub mod Drawings
pub mod Bits
pub mod Steps
pub mod Planes
mod Naming
