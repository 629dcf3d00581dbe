pub mod Links
pub mod Reasons
pub mod Tables
