pub mod Numbering
pub mod FirstLines
pub mod Repeats
pub mod Elsewhere
pub mod Pins
pub mod NetWords
