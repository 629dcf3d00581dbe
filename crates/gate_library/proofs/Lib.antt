pub mod Periods
pub mod Spread
pub mod Tested
