pub mod Texts
pub mod Drawn
pub mod Answers
