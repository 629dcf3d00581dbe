pub mod Shown
pub mod Drawn
pub mod ListedNets
pub mod NetTables
pub mod Readable
pub mod DesignNets
pub mod Carrying
