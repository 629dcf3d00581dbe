pub mod Drawn
pub mod Nets
pub mod Carried
pub mod Tables
pub mod Wanted
