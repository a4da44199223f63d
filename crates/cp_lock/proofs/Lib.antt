pub mod Well
pub mod Sessions
pub mod Standing
pub mod Whole
