pub mod FirstGateLines
pub mod SkippedLines
