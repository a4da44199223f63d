pub mod Moments
pub mod Causes
pub mod Laws
pub mod WrongHistories
