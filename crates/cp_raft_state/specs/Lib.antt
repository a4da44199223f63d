pub mod Messages
pub mod Room
pub mod Said
pub mod Joining
pub mod Looking
pub mod Doing
pub mod Groups
