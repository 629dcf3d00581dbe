pub mod Grown
pub mod Reduced
pub mod Noted
