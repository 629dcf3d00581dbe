pub mod App
pub mod Arguments
pub mod Errors
pub mod Laws
pub mod Numbers
pub mod Shapes
pub mod StreamCommands
