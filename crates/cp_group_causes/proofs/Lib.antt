pub mod Lists
pub mod Acts
pub mod Rules
pub mod After
pub mod Caused
pub mod WrongHistories
