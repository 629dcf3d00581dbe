pub mod Drawing
pub mod Interface
pub mod TimingLaw
pub mod Kinds
pub mod Laws
