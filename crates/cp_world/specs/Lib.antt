pub mod Following
pub mod Given
pub mod Rooms
pub mod Steps
