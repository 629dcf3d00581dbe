pub mod Named
pub mod NamedClass
pub mod Sets
pub mod Started
