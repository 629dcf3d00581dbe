pub mod Growing
pub mod Sharing
pub mod Spared
