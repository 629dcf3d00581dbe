pub mod Zero
pub mod Needed
pub mod Complements
pub mod Laws
pub mod Low
pub mod Marks
pub mod Raised
