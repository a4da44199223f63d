pub mod Bringing
pub mod Lengths
