pub mod Ports
pub mod Boxed
pub mod Pattern
pub mod Blank
pub mod RowRuns
pub mod Near
pub mod Wires
pub mod WestRuns
