pub mod Places
pub mod ToCome
pub mod Weights
pub mod Words
