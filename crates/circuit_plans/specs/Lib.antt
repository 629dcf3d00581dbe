pub mod Circuits
pub mod Laws
pub mod Lifted
pub mod Lists
