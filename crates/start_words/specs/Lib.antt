pub mod Words
pub mod Starts
pub mod Flats
pub mod Laws
