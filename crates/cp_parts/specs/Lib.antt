pub mod Configs
pub mod LogEntries
pub mod Heads
pub mod Parts
pub mod Laws
