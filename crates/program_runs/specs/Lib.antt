pub mod Runs
pub mod Netlists
pub mod Refusals
pub mod Tells
