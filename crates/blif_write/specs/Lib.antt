pub mod Text
pub mod Lift
pub mod Laws
pub mod Marks
pub mod Words
