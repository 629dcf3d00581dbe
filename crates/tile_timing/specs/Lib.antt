pub mod Window
pub mod Law
pub mod Mirror
