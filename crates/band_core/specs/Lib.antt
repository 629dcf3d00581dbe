pub mod Bands
pub mod Beside
pub mod Band
pub mod Held
pub mod Together
