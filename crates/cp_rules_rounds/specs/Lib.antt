pub mod Moments
pub mod Confirming
pub mod Waiting
pub mod Leading
pub mod Answers
pub mod Examples
