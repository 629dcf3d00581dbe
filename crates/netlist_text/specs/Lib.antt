pub mod NetlistText
pub mod Causes
pub mod Errors
pub mod Laws
pub mod Parts
