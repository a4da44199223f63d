pub mod ObjectWords
pub mod CallTexts
pub mod SignedWords
pub mod HexWords
