pub mod Edges
pub mod Planes
pub mod Spans
pub mod Laws
