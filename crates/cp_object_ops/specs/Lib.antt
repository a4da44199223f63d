pub mod LongOps
pub mod RefOps
pub mod LockOps
pub mod SemOps
pub mod LatchOps
pub mod MapOps
pub mod Laws
