pub mod Drawings
pub mod InBox
pub mod Laws
pub mod RowRuns
pub mod WiredRows
