pub mod Sourced
pub mod Singles
