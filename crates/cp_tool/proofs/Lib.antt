pub mod OneWord
pub mod Beyond
pub mod Stepping
pub mod Limiting
pub mod Promises
