pub mod Committed
pub mod Entries
pub mod Doing
pub mod Members
pub mod Others
pub mod Copies
