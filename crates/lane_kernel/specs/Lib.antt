pub mod Rows
pub mod Words
pub mod Around
pub mod Lanes
pub mod Spans
pub mod Steps
pub mod Marked
pub mod PlaneRows
