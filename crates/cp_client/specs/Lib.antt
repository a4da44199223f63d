pub mod Steps
pub mod Rooms
pub mod Threads
pub mod Calling
pub mod Changes
pub mod Nexts
pub mod Ticking
