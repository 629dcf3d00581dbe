pub mod Routed
pub mod Labels
pub mod Delayed
pub mod Points
pub mod Carried
pub mod Shown
pub mod Flats
pub mod Lifted
