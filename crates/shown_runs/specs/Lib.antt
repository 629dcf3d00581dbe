pub mod ShownRuns
pub mod ByItself
