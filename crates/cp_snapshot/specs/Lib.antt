pub mod Decisions
pub mod Assemblers
pub mod Laws
