pub mod Fields
pub mod SeenNames
pub mod Walking
pub mod Walk
pub mod EscapedNames
pub mod LineBytes
pub mod Unescaped
pub mod SoundTable
