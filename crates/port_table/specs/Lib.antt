pub mod Lent
pub mod Seen
pub mod Names
