pub mod Sources
pub mod Meaning
pub mod Loops
pub mod Adding
pub mod Tables
