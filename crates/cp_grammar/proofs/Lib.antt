pub mod Found
pub mod ItemLoop
pub mod LineLoop
pub mod Ends
pub mod Digits
