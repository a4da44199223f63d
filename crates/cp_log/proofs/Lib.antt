pub mod RowLemmas
pub mod RowMaps
pub mod Numbers
pub mod Prepared
pub mod Recovering
pub mod Written
pub mod Places
pub mod Opened
