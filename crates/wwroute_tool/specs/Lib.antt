pub mod Words
pub mod Refusing
pub mod Carried
pub mod Answers
pub mod Commands
pub mod Tasks
pub mod Runs
