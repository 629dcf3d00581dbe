pub mod Streams
pub mod Summaries
pub mod Laws
pub mod Plans
pub mod Outputs
pub mod MadeNetlists
