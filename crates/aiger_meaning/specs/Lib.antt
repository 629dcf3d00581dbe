pub mod Circuit
pub mod Loop
pub mod FlatOf
pub mod NetIndex
pub mod Lowered
pub mod Laws
pub mod Ids
pub mod Causes
