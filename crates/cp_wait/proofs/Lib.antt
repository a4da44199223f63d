pub mod Shelves
pub mod Arriving
pub mod Hits
pub mod KindOrder
pub mod Standing
