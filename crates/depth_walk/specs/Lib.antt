pub mod Links
pub mod Order
pub mod Reasons
pub mod Walk
