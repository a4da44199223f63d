pub mod Nested
pub mod Tables
pub mod Outcomes
pub mod Fitting
pub mod Serving
pub mod Backs
pub mod Concerns
