pub mod Recoveries
pub mod InForce
pub mod Groups
pub mod Worked
