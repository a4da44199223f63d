pub mod Steps
pub mod Over
pub mod Cases
pub mod Rooms
pub mod Taken
pub mod Fronts
