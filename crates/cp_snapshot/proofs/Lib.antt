pub mod Joins
pub mod Pieces
pub mod Rules
