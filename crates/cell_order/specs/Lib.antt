pub mod Renamed
pub mod Alike
