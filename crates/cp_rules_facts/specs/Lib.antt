pub mod Seen
pub mod Soundness
pub mod Laws
pub mod Executions
