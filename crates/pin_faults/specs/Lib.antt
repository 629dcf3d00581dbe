pub mod NotNamed
pub mod SubcktLines
