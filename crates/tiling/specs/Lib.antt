pub mod Tiling
pub mod Matched
pub mod MacroStep
pub mod Steps
