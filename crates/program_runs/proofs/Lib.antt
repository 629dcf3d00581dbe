pub mod Given
pub mod SameTexts
pub mod Statuses
