pub mod WholeLogs
pub mod Laws
