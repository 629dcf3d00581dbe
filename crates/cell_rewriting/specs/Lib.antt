pub mod Substitution
pub mod Words
pub mod Lists
