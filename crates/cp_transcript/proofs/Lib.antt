pub mod Growing
pub mod Whole
pub mod Opening
