pub mod Fields
pub mod Facing
pub mod RowsPut
pub mod CellWords
