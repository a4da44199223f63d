pub mod Changes
pub mod Ordered
