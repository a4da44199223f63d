pub mod Doing
pub mod Appends
