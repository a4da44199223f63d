pub mod Chunks
pub mod SpellingLaws
pub mod PartLaws
pub mod Completes
pub mod Searching
pub mod Standing
pub mod Adding
