pub mod Replays
pub mod Settled
