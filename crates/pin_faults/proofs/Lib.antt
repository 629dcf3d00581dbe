pub mod OfferedWords
pub mod NamesAdded
pub mod Repeats
pub mod Ports
pub mod MissingPins
