pub mod Fronts
pub mod DrawnLines
pub mod Runs
pub mod DrawnText
pub mod HeaderLines
pub mod ReadText
pub mod OneAnswer
