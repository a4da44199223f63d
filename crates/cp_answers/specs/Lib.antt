pub mod Arguments
pub mod EndedBys
pub mod Answers
pub mod Refusals
pub mod Laws
