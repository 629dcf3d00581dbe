pub mod Gathered
pub mod GatheredNets
pub mod Readable
pub mod NetLines
pub mod Listed
