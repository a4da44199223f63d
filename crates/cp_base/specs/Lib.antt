pub mod Names
pub mod Decimals
pub mod Hexadecimals
pub mod Identifiers
pub mod Faults
pub mod Text
