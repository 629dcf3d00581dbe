pub mod LineLaws
pub mod OneRun
pub mod PortExamples
pub mod RleExamples
pub mod Whole
