pub mod Numbers
pub mod NamedLines
pub mod Passing
pub mod Pushed
