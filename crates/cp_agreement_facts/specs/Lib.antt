pub mod Entries
pub mod Configurations
pub mod Logs
pub mod Clusters
pub mod Facts
