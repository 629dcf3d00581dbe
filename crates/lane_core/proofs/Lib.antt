pub mod Lookup
pub mod Commuting
pub mod Dark
pub mod Lengths
pub mod Naming
pub mod TapeBits
