pub mod ByName
pub mod Links
pub mod Numbers
pub mod Order
pub mod Reasons
