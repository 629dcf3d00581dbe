pub mod Zeros
mod Lowering
mod Marking
mod Raising
mod Ports
mod Whole
pub mod Mapped
