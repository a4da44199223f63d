pub mod Endings
pub mod Recalls
pub mod Stand
