pub mod Fronts
pub mod Header
pub mod Events
pub mod Schedules
pub mod Reading
pub mod Shown
pub mod Laws
