pub mod RuleCases
pub mod Stood
pub mod Chains
