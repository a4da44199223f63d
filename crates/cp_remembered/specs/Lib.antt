pub mod Forgetting
pub mod Memories
