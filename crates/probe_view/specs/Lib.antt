pub mod Probes
pub mod Windows
