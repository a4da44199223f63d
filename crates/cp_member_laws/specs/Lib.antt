pub mod Runs
pub mod Asked
pub mod Laws
pub mod Worked
