pub mod Passing
pub mod First
