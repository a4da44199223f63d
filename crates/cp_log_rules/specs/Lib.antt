pub mod Persistent
pub mod Configurations
pub mod Durable
pub mod Legal
pub mod Recovery
