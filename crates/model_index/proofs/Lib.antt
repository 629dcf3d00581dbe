pub mod Numbered
pub mod Naming
pub mod Linked
pub mod Circling
