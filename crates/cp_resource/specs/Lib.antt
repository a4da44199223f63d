pub mod Stepping
pub mod Timing
pub mod Lawful
pub mod Restoring
pub mod States
pub mod Reads
pub mod Laws
