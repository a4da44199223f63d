pub mod Splits
pub mod NameLemmas
pub mod DecimalLemmas
pub mod HexadecimalLemmas
pub mod Tests
