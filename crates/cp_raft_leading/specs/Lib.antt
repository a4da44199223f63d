pub mod Replying
pub mod Changing
pub mod Asks
