pub mod Effects
pub mod Histories
pub mod Transcripts
pub mod Telling
