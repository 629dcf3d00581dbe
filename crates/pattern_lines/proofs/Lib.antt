pub mod FirstLines
pub mod Numerals
