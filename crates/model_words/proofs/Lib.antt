pub mod NamesAdded
pub mod NumberedPorts
pub mod EarliestWords
pub mod OfferedWords
