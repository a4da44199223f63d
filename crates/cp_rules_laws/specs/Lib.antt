pub mod Writes
pub mod Moves
pub mod Origins
pub mod Moments
pub mod Histories
pub mod Snapshots
pub mod Ended
pub mod Worked
