pub mod ShownContexts
pub mod Shown
pub mod ShownNets
pub mod Quiet
pub mod Matching
pub mod ByItself
