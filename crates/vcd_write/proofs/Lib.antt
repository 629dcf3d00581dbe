mod Ids
mod Values
mod OneForm
mod Order
pub mod Alike
mod EscapedNames
mod Packed
mod DueOrder
mod DueSteps
mod Variables
mod FirstBits
mod Named
mod Words
mod Texts
mod Dumped
