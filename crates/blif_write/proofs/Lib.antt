mod Counted
mod Leading
mod NamedWords
mod Pieces
pub mod Plain
pub mod TextsRead
