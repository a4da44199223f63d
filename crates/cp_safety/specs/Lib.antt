pub mod Standing
pub mod Tracking
pub mod Chunks
pub mod Laws
pub mod Examples
