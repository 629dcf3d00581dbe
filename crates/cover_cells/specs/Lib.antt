pub mod Covers
pub mod Words
pub mod Placed
pub mod Suits
