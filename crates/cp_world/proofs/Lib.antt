pub mod Growing
pub mod Leading
pub mod Turned
pub mod Taking
pub mod Events
pub mod Parts
