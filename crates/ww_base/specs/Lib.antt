pub mod Faults
pub mod Fakes
pub mod Standard
pub mod Progress
pub mod Pages
pub mod Pieces
