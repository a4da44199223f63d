pub mod Arrivals
pub mod Keys
pub mod Indexes
pub mod Queues
pub mod Faults
