pub mod LogicalLines
pub mod Models
pub mod LineFaults
pub mod Faults
pub mod Laws
