pub mod Newer
pub mod Versions
pub mod Larger
