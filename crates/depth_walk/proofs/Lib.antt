pub mod Walks
pub mod Orders
pub mod Circling
pub mod Steps
