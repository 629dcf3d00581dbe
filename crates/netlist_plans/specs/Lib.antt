pub mod Lists
pub mod Sparing
pub mod Contexts
pub mod Loaded
pub mod Names
pub mod Planned
pub mod NetPlaces
pub mod TextNames
