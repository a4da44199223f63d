pub mod Asking
pub mod Clients
pub mod Sessions
pub mod Holds
pub mod Calls
pub mod Answers
pub mod Ticks
