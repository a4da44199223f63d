mod Order
pub mod Forgotten
