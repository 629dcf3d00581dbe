pub mod Laws
pub mod NamedGate
pub mod SamplePorts
pub mod Samples
pub mod Writer
pub mod WrittenText
