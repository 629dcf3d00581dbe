pub mod Alike
pub mod Matched
