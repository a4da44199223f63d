pub mod Logs
pub mod Decisions
pub mod Laws
