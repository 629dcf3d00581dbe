pub mod Numbering
pub mod Parents
pub mod Tabling
pub mod Joining
pub mod Listing
pub mod Controls
pub mod MainPorts
