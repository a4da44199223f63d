pub mod Indexed
pub mod Closed
pub mod Found
pub mod Ruled
pub mod Tabled
