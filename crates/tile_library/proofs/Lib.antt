mod Blank
pub mod Kept
