pub mod Comes
pub mod Readiness
pub mod Starting
