mod Sourcing
mod Gathering
mod Starting
mod Known
mod NextNode
pub mod Weights
mod OneCell
mod Finishing
