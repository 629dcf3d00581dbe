pub mod Routed
pub mod Labels
pub mod Runs
pub mod Lists
pub mod Tables
pub mod Flats
pub mod Lifted
