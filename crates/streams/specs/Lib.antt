pub mod Words
pub mod Streams
pub mod GivenBits
pub mod Rows
pub mod Examples
pub mod Cuts
