pub mod Numbered
pub mod Tables
pub mod Inputs
pub mod Joins
pub mod Listed
