pub mod Naming
pub mod Ordered
pub mod Ranked
pub mod Trails
pub mod Finding
pub mod Words
