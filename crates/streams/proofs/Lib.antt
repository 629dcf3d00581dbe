pub mod Ranges
pub mod Found
pub mod GivenWords
pub mod Across
pub mod Contexts
pub mod Places
pub mod Numbers
