pub mod Quiet
pub mod Viewing
pub mod Replying
