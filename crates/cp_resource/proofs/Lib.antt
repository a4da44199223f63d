pub mod Entries
pub mod Timers
pub mod Snapshots
pub mod Held
pub mod Sound
pub mod Together
pub mod Outcomes
pub mod Looks
