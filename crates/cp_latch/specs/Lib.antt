pub mod Counted
pub mod Rounds
