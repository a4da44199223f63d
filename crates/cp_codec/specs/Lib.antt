pub mod Fields
pub mod Exact
pub mod Reads
