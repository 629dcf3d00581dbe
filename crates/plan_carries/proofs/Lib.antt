pub mod Alike
pub mod SeenNets
pub mod Runs
pub mod Designs
pub mod Bare
pub mod Carried
pub mod Written
mod Pictures
pub mod Tapes
