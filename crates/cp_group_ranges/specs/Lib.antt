pub mod Rows
pub mod States
pub mod Owners
pub mod Laws
