pub mod Compiled
pub mod Laws
pub mod Pictures
pub mod ContextLaws
pub mod TapeLaws
