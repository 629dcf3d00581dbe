pub mod Nodes
pub mod Linked
pub mod Loops
